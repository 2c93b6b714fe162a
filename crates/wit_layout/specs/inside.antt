pub mod Ahead
pub mod Grain
pub mod Kind
pub mod KindLayout
pub mod Sequence
pub mod Spread
pub mod Stored
pub mod Words

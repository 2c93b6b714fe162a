-- The instructions of some types and functions in their order.
pub mod CaseOrders
pub mod MemoryOrders
pub mod Orders
pub mod Steps

pub mod Pushed

pub mod Orders
pub mod Views
pub mod Rises
pub mod Turns
pub mod FunctionOrders
pub mod Tables
pub mod Laws

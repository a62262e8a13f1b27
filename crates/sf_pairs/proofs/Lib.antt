pub mod LeastDegrees
pub mod Choices
pub mod PushOrders
pub mod DegreeOrders
pub mod KeptQueues

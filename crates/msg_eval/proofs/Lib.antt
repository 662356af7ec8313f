pub mod ExprLemmas
pub mod BoundLemmas
pub mod DispatchLemmas
pub mod PointLemmas
pub mod StepLemmas
pub mod OperationLemmas

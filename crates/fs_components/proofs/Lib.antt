mod AlongSides
pub mod ConnectionsExist
pub mod ConnectionsUnique
pub mod ExchangeAreas
pub mod ExchangeStates
mod FlowEnds
pub mod FlowExists
pub mod FlowMeans
pub mod FlowUnique
mod KeptConnections
pub mod KeptVectors
mod ListedConnections
mod LowestDenominators
mod MeasureSteps
mod MeasuredParts
pub mod MeasuredValues
pub mod MeasuresExist
pub mod MeasuresUnique
pub mod PairedAreas
pub mod PartReturns
mod PickedSides
pub mod PolygonAreas
pub mod RunAreas
pub mod RunSizes

pub mod Connections
pub mod FlowMeaning
pub mod Flows
pub mod Gathering
pub mod Measures

pub mod ExchangeSites
pub mod ExchangeValue
pub mod FirstReturns
pub mod Images
pub mod Rows

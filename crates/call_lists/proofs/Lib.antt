pub mod CallSeen
pub mod ToldSeen
pub mod PlaceHolds
pub mod EveryPlace
pub mod DemandThree
pub mod TotalsShown
pub mod RecordsShown

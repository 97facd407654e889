pub mod Root
pub mod RootCode
pub mod Small

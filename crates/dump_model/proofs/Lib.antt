pub mod Tests
pub mod Same
pub mod Headers
pub mod Sound
pub mod Passing
pub mod Agreeing
pub mod Lengths
pub mod Texts

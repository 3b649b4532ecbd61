pub mod BuiltLaws
pub mod HeadLaws
pub mod OpenLaws
pub mod PickLaws
pub mod QuietLaws
pub mod TakeLaws

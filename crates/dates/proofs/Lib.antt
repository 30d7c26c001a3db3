pub mod ModelLaws
pub mod RuleLaws
pub mod HeaderLaws
pub mod PlaceLaws

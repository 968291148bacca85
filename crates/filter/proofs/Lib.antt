pub mod LayerUses
pub mod LayerLawful
pub mod AnyKindsLawful

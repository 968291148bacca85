pub mod Layers
pub mod LayerSound
pub mod LayerLaw
pub mod AnyKinds
pub mod AnyKindsSound
pub mod AnyKindsLaw

pub mod AddressLaws
pub mod TextLaws
pub mod TimeLaws
pub mod HashLaws
pub mod BitmapSteps
pub mod BitmapLaws

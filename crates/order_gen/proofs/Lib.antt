pub mod DrawLemmas
pub mod Lists
pub mod Steps
pub mod OfferList
pub mod Made
pub mod MadeForm
pub mod FirstSupplier

pub mod Known
pub mod Latest
pub mod Laws
pub mod PassAt
pub mod KnownDocuments
pub mod Lasting
pub mod LastChange
pub mod inner

pub mod Laws
pub mod TextLaws
pub mod RowLaws
mod FieldLaws
pub mod WrittenRows
pub mod NumberOrder

pub mod RowEnd

mod Appended
mod Copied
mod Segments
mod Restore
mod RowLoop
mod RowsLoop
mod Checked

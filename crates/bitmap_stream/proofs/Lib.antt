mod Entry
mod Examples
mod FirstByte

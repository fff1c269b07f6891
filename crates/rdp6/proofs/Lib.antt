mod Examples
mod Numbers
mod Header
mod Layouts

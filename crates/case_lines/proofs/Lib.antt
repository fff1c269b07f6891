mod Examples
mod Compared
mod Numbers
mod Cases

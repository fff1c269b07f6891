mod Checks
mod RleBody
mod RawBody

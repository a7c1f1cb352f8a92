mod Cutting
mod FirstLines
mod TableOrBound

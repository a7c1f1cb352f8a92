mod Appended
mod BytesUnder
mod Keeps
mod Moves
mod ReadsWhole

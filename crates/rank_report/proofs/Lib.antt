mod Ascii
mod Examples
mod Fields
mod JsonObjects
mod JsonTexts
mod Numbered

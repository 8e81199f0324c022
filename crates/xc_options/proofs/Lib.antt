mod Choices
mod Numerals

mod Counts
mod OwnTexts

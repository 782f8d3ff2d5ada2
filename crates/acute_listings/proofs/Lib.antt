mod ListingExamples
mod NamesExamples

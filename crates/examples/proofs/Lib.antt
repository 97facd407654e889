mod Table
mod ListExamples

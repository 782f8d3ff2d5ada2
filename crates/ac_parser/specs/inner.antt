pub mod ProgramParsing

mod DrainLaws
mod ToldLaws

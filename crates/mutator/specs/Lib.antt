-- What a mutator may see: what each call answers, and what holds of all of them.
pub mod Outcomes
pub mod Numbers
pub mod Table
pub mod Listed
pub mod Script
pub mod Laws
pub mod Examples
pub mod Refusals
pub mod TableLaws

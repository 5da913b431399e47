mod Firsts
mod Assignments
mod Growth
mod ConditionTerms
mod LinesPut

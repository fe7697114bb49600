-- The checks of a file and of a mean record.
--   Refusals     the number of each reason; the code's answer as the definitions' check
--   Checks       runs of fields; a part that is read; which checks the code runs together
--   CheckLaws    laws of the definitions' checks, and what a file that passed them is known to be
--   Places       each field ends inside the file
pub mod Refusals
pub mod Checks
pub mod CheckLaws
pub mod Places

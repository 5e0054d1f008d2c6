-- The laws of the text as it is written.
mod Printed
mod PrintedParts

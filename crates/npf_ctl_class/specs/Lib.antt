pub mod ClassFault

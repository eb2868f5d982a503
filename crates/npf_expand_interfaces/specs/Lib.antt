pub mod IfaceFile

pub mod StatusCode

pub mod FreshTables

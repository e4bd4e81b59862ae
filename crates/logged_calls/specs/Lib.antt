pub mod LoggedCall

pub mod GraphLeads

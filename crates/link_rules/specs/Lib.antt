-- What an order link asks of its addresses, of its tries, of an order's length and of a lent buffer.
pub mod Rules

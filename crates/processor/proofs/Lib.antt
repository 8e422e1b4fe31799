pub mod ReadsByKinds
pub mod SameWhereRead
pub mod UnionOf
pub mod WhereOverJoin
pub mod Rules

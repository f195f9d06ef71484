-- Re-exports the definitions and types of this library: other files import those that they cite from here, in one line.
pub use Rattle.thp_links.specs.Ends.{HasEnds, HasHead}
pub use Rattle.thp_links.specs.Indices.{Apart, Distinct, last_or, without_index}
pub use Rattle.thp_links.specs.Neighbours.{next_replaced, prev_replaced}
unfoldable pub use Rattle.thp_links.specs.Neighbours.{with_next, with_prev}
pub use Rattle.thp_links.specs.Standing.{ChainStands, SameOutside, Segment, Stands, Trail, between}
pub use Rattle.thp_links.specs.declared.link.Link.{Link}
pub use Rattle.thp_links.specs.declared.link.TheConstants.{NIL}

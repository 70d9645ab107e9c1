pub mod Lists
pub mod Marks
pub mod Sheet
pub mod Code
pub mod Refreshed
pub use Lists.{lists_of, total_length}
pub use Marks.{furthest, is_marked}
pub use Sheet.{SheetState, AreRowsWhole, grid_of, IsGrid, IsGroup, IsCopy}
pub use Code.{sheet_code}
pub use Refreshed.{most_cells, most_copies, fresh, shape_fault, limit_fault, fault_of, cells_after, fault_after, IsRefreshToldOf, due_windows, evaluated, IsRefreshed, IsSheetAfter}
pub use declared.definition.GroupDefParts.{GroupDefParts}
pub use declared.refusal.SheetNo.{SheetNo}

pub mod Shelves
pub mod Openings
pub mod Closings
pub mod Tags
pub mod TagRefusals
pub mod OpenedBases
pub mod CellNames
pub mod CellOpenings
pub mod CellClosings
pub mod CellStops
-- the groups of a base and their books
pub mod Groups
pub mod BookRefusals
pub mod BookEndings
pub mod BookSteps
pub use Shelves.{IsShelf, IsShelfFor, HasPlacesOf}
pub use Openings.{cell_records_in, opened_records_of, IsPlantRefusal, OfTags, OfGroups, AreRestSame, CountsPlant}
pub use Closings.{AreDevicesBack, CountsClosed}
pub use OpenedBases.{AreUntouched, IsOpenedBase, points_recovered, IsDurable, AreKept, CountsDevices}
pub use CellNames.{texts, device_names_of, AreApart, HasPlaces}
pub use CellOpenings.{core_of, IsCellOpened, AreCellsOpened, records_opened}
pub use CellStops.{AreTold, IsStopped}
pub use BookSteps.{StaysSameOf, RestStaysSame, HavePlaces, AreOtherNamesSame, IsCauseAt}
pub use declared.shelf.Shelf.{Shelf}

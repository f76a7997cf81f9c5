-- What holds of the item at an index of a list.
use Rattle.std.proofs.Common.{ℕ, List, length, refl}
use Rattle.std.proofs.lemmas.Option.{slice_get_read}
use Rattle.std.specs.List.{AllByRecursion}
use Rattle.fs_lists.proofs.All.{All-slice_get}
use Rattle.fs_lists.proofs.Items.{IsItem}

-- what holds of each item holds of the one at an index
pub item_holds : {X : Type 0} (P : X → Type 0) (xs : List X) (i : ℕ) (x : X) → AllByRecursion P xs → IsItem xs i x → P x
item_holds P xs i x all item = All-slice_get P xs i x all (slice_get_read xs (length xs) i x refl item.inside item.is)

-- How a site is printed: its name and its numbers.
use Rattle.std.specs.Prelude.{ℕ, List, ◌++◌, codes}
use Rattle.std.specs.Fmt.{decimal}
use Rattle.fs_plane.specs.declared.sites.Site.{Site}
use Rattle.fs_plane.specs.declared.sites.Site.TheVariants.{Scale, Close, Corner, Area, AreaScale, Grid, Enter, Walk, Circle, Flip, Bound, First, Fan, Keep, Home, Letter, Shift, Event, Value, TableScale, TableClose, TableCorner, Reflect, Product, Copy}

-- a name and one number, with a space between them
abbrev pub with_number : List ℕ → ℕ → List ℕ
with_number name p = name ++ codes " " ++ decimal p

-- a name and two numbers, with a space before each
abbrev pub with_two : List ℕ → ℕ → ℕ → List ℕ
with_two name i p = name ++ codes " " ++ decimal i ++ codes " " ++ decimal p

-- a name and three numbers, with a space before each
abbrev pub with_three : List ℕ → ℕ → ℕ → ℕ → List ℕ
with_three name i j p = name ++ codes " " ++ decimal i ++ codes " " ++ decimal j ++ codes " " ++ decimal p

-- the name of the site, and its numbers in order
abbrev pub site_text : Site → List ℕ
site_text (Scale polygon side place) = with_three (codes "scale") polygon side place
site_text (Close polygon side place) = with_three (codes "close") polygon side place
site_text (Corner polygon side place) = with_three (codes "corner") polygon side place
site_text (Area polygon corner place) = with_three (codes "area") polygon corner place
site_text (AreaScale place) = with_number (codes "areascale") place
site_text (Grid place) = with_number (codes "grid") place
site_text (Enter place) = with_number (codes "enter") place
site_text (Walk crossings place) = with_two (codes "walk") crossings place
site_text (Circle flips edge place) = with_three (codes "circle") flips edge place
site_text (Flip flips edge place) = with_three (codes "flip") flips edge place
site_text (Bound place) = with_number (codes "bound") place
site_text (First half_edge place) = with_two (codes "first") half_edge place
site_text (Fan word place) = with_two (codes "fan") word place
site_text (Keep vector place) = with_two (codes "keep") vector place
site_text (Home ray place) = with_two (codes "home") ray place
site_text (Letter polygon side place) = with_three (codes "letter") polygon side place
site_text (Shift polygon side place) = with_three (codes "shift") polygon side place
site_text (Event event place) = with_two (codes "event") event place
site_text (Value component place) = with_two (codes "value") component place
site_text (TableScale side place) = with_two (codes "tscale") side place
site_text (TableClose side place) = with_two (codes "tclose") side place
site_text (TableCorner side place) = with_two (codes "tcorner") side place
site_text (Reflect side place) = with_two (codes "reflect") side place
site_text (Product product side place) = with_three (codes "product") product side place
site_text (Copy copy side place) = with_three (codes "copy") copy side place

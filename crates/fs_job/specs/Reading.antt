-- The draft that a job is, its limits, and the directions of its commands. The contract of `flat` doesn't rest on this file.
use Rattle.std.specs.Prelude.{◌≡◌, ◌≢◌, ◌≤◌, false, Option, None, Some, List, [], length}
use Rattle.fs_gluing.specs.Shape.{IsWithinLimits}
use Rattle.fs_gluing.specs.declared.shapes.Glue.{Glue}
use Rattle.fs_gluing.specs.declared.shapes.Point.{Point}
use Rattle.fs_plane.specs.Vector.{vector_zero}
use Rattle.fs_job.specs.declared.job.Form.{Form}
use Rattle.fs_job.specs.declared.job.Form.TheVariants.{Polygons, Table}
use Rattle.fs_job.specs.declared.job.Job.{Job}
use Rattle.fs_job.specs.declared.job.Command.{Command}
use Rattle.fs_job.specs.declared.job.Command.TheVariants as commands
use Rattle.fs_job.specs.Draft.{Draft, most_table_sides, IsOrigin}

-- the sides of the table of a job, where it has one
abbrev pub form_table : Form → Option (List Point)
form_table (Polygons shape) = None
form_table (Table table) = Some table

-- the polygons of a job; none where it has a table
abbrev pub form_polygons : Form → List (List Point)
form_polygons (Polygons shape) = shape.polygons
form_polygons (Table table) = []

-- the glue lines of a job; none where it has a table
abbrev pub form_glues : Form → List Glue
form_glues (Polygons shape) = shape.glues
form_glues (Table table) = []

-- the draft that a job is
abbrev pub job_draft : Job → Draft
job_draft job = record { d = job.field.d; table = form_table job.form; polygons = form_polygons job.form; glues = form_glues job.form; commands = job.commands }

-- it is within the limits, and allows no straight corner
abbrev pub IsFormWithinLimits : Form → Type 0
IsFormWithinLimits (Polygons shape) = IsWithinLimits shape × (shape.straight ≡ false)
IsFormWithinLimits (Table table) = length table ≤ most_table_sides

-- the direction of the command, where it has one, isn't 0,0
abbrev pub HasDirection : Command → Type 0
HasDirection commands.Check = Unit {0}
HasDirection commands.Stratum = Unit {0}
HasDirection (commands.Segment n start v) = ¬ IsOrigin v
HasDirection commands.Delaunay = Unit {0}
HasDirection commands.Cells = Unit {0}
HasDirection (commands.Saddles limit) = Unit {0}
HasDirection (commands.Flow v) = v ≢ vector_zero

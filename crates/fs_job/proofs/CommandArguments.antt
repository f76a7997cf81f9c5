-- The numbers of a command: what they are read as, and their fault.
use Rattle.std.proofs.Common.{◌≡◌, ◌≢◌, ℕ, true, List, Ok, inl, inr, refl, sym, ap, ◌∙◌, subst}
use Rattle.std.specs.List.{AllByRecursion}
use Rattle.fs_fraction.specs.Fraction.{Fraction}
use Rattle.fs_gluing.specs.declared.faults.Fault.{Fault}
use Rattle.fs_gluing.specs.declared.shapes.Point.{Point}
use Rattle.fs_plane.specs.Vector.{PlaneVector, vector_zero}
use Rattle.fs_job.specs.declared.job.Command.{Command}
use Rattle.fs_job.specs.declared.job.Command.TheVariants as commands
use Rattle.fs_job.specs.Statement.{Pair, StatedCommand, check, stratum, segment, delaunay, cells, saddles, flow, argument_texts, command_line}
use Rattle.fs_job.specs.Draft.{Draft, drafted, to_fault, IsAllowed, HasRoom, IsNumber, IsPoint, IsVector, ReadsWhole, IsOrigin, HasZeroDirection, IsCommand, StatementLeads, bad_number, senseless}
use Rattle.fs_job.specs.Reading.{HasDirection}
use Rattle.fs_job.specs.Line.{IsArgumentFault}
use Rattle.fs_lists.proofs.Results.{ok_equal}
use Rattle.fs_job.proofs.NumberTexts.{point_is_numbers, point_exists, point_unique, text_unique, vector_is_numbers, vector_exists, vector_unique}

-- a text is read as one whole number at most
limit_unique : (text : List ℕ) (x y : Fraction) → ReadsWhole text (Ok x) → ReadsWhole text (Ok y) → x ≡ y
limit_unique text x y a b = ok_equal x y (text_unique (record { whole = true; text = text }) (Ok x) (Ok y) a b)

-- a stated command is one command at most
pub command_unique : (n : ℕ) (stated : StatedCommand) (c d : Command) → IsCommand n stated c → IsCommand n stated d → c ≡ d
command_unique n check c d p q = p ∙ sym q
command_unique n stratum c d p q = p ∙ sym q
command_unique n (segment start pair) c d p q = p.2 ∙ (ap (λ (v : Point). commands.Segment n start v) (point_unique pair p.0 q.0 p.1 q.1) ∙ sym q.2)
command_unique n delaunay c d p q = p ∙ sym q
command_unique n cells c d p q = p ∙ sym q
command_unique n (saddles text) c d p q = p.2 ∙ (ap (λ (x : Fraction). commands.Saddles x.num) (limit_unique text p.0 q.0 p.1 q.1) ∙ sym q.2)
command_unique n (flow pair) c d p q = p.2 ∙ (ap (λ (v : PlaneVector). commands.Flow v) (vector_unique pair p.0 q.0 p.1 q.1) ∙ sym q.2)

-- the texts of a stated command that is a command are numbers
pub command_is_numbers : (n : ℕ) (stated : StatedCommand) (command : Command) → IsCommand n stated command → AllByRecursion IsNumber (argument_texts stated)
command_is_numbers n check command p = tt
command_is_numbers n stratum command p = tt
command_is_numbers n (segment start pair) command p = point_is_numbers pair p.0 p.1
command_is_numbers n delaunay command p = tt
command_is_numbers n cells command p = tt
command_is_numbers n (saddles text) command p = ((p.0, p.1), tt)
command_is_numbers n (flow pair) command p = vector_is_numbers pair p.0 p.1

-- a stated command whose texts are numbers is a command
pub command_exists : (n : ℕ) (stated : StatedCommand) → AllByRecursion IsNumber (argument_texts stated) → (command : Command) × IsCommand n stated command
command_exists n check all = (_, refl)
command_exists n stratum all = (_, refl)
command_exists n (segment start pair) all = let found = point_exists pair all in (_, (found.0, found.1, refl))
command_exists n delaunay all = (_, refl)
command_exists n cells all = (_, refl)
command_exists n (saddles text) all = (_, (all.0.0, all.0.1, refl))
command_exists n (flow pair) all = let found = vector_exists pair all in (_, (found.0, found.1, refl))

-- ---- directions

-- a pair that spells another point than 0,0 doesn't spell 0,0
pub not_origin : (pair : Pair) (point : Point) → IsPoint pair point → ¬ IsOrigin point → (other : Point) → IsPoint pair other → ¬ IsOrigin other
not_origin pair point is nonzero other is' zero = nonzero (subst IsOrigin (point_unique pair other point is' is) zero)

-- a pair that spells another vector than 0,0 doesn't spell 0,0
pub not_zero_vector : (pair : Pair) (v : PlaneVector) → IsVector pair v → v ≢ vector_zero → (other : PlaneVector) → IsVector pair other → other ≢ vector_zero
not_zero_vector pair v is nonzero other is' zero = nonzero (vector_unique pair v other is is' ∙ zero)

-- a command whose direction isn't stated as 0,0 has another one
pub has_direction : (n : ℕ) (stated : StatedCommand) (command : Command) → IsCommand n stated command → ¬ HasZeroDirection stated → HasDirection command
has_direction n check command p nonzero = subst HasDirection (sym p) tt
has_direction n stratum command p nonzero = subst HasDirection (sym p) tt
has_direction n (segment start pair) command p nonzero = subst HasDirection (sym p.2) (λ zero. nonzero (p.0, p.1, zero))
has_direction n delaunay command p nonzero = subst HasDirection (sym p) tt
has_direction n cells command p nonzero = subst HasDirection (sym p) tt
has_direction n (saddles text) command p nonzero = subst HasDirection (sym p.2) tt
has_direction n (flow pair) command p nonzero = subst HasDirection (sym p.2) (λ zero. nonzero (p.0, p.1, zero))

-- ---- faults

-- the fault of a command's numbers is where its line leads
pub leads_to_argument_fault : (n : ℕ) (draft : Draft) (stated : StatedCommand) (fault : Fault) → IsAllowed (drafted draft) (command_line stated) → HasRoom draft (command_line stated)
    → IsArgumentFault n stated fault → StatementLeads n (drafted draft) (command_line stated) (to_fault fault)
leads_to_argument_fault n draft check fault may room told = absurd told
leads_to_argument_fault n draft stratum fault may room told = absurd told
leads_to_argument_fault n draft delaunay fault may room told = absurd told
leads_to_argument_fault n draft cells fault may room told = absurd told
leads_to_argument_fault n draft (saddles text) fault may room told = bad_number told.0 may room told.1 (ap to_fault told.2)
leads_to_argument_fault n draft (segment start pair) fault may room told = elim told [
  | inl bad ↦ bad_number bad.0 may room bad.1 (ap to_fault bad.2)
  | inr zero ↦ senseless fault may room (point_is_numbers pair zero.0 zero.1) ((zero.0, zero.1, zero.2), zero.3) refl
]
leads_to_argument_fault n draft (flow pair) fault may room told = elim told [
  | inl bad ↦ bad_number bad.0 may room bad.1 (ap to_fault bad.2)
  | inr zero ↦ senseless fault may room (vector_is_numbers pair zero.0 zero.1) ((zero.0, zero.1, zero.2), zero.3) refl
]

use Rattle.std.proofs.Common.{◌≡◌, ◌+◌, ◌-◌, ◌≤◌, List, ℕ, length, take, drop, min, sym, ap, ◌∙◌, arith, length-take, length-drop, length-append}
use Rattle.fs_io.specs.Memory.{SourceState}
use Rattle.fs_io.proofs.Pieces.{copied_prefix, none_left}
use Rattle.fs_io.proofs.memory.MemSourceSource.take.Goals as goal

pub returns-clause-bytes : goal.returns-clause-bytes
returns-clause-bytes c =
    let at = c.self.inside.at in
    let bytes = c.self.inside.bytes.items in
    let n = c.min-n.result in
    let rest = c.deref-2.result.now in
    let same : rest ≡ bytes = c.deref-2.ensures.value in
    let piece : c.copy_from_slice.new.self ≡ take n (take (length bytes - at) (drop at bytes)) = c.copy_from_slice.ensures.after ∙ ap (λ (xs : List ℕ). take n (take (length xs - at) (drop at xs))) same in
    let least : n ≡ min c.min.result (length (take (length bytes - at) (drop at bytes))) = c.min-n.ensures ∙ ap (λ (xs : List ℕ). min c.min.result (length (take (length xs - at) (drop at xs)))) same in
    let room : n + at ≤ length bytes = omega (arith, length-take (length bytes - at) (drop at bytes), length-drop at bytes) in
    let piece_and_rest = copied_prefix bytes c.copy_from_slice.new.self (drop n c.args.into.now) at n room piece in (
      sym (ap (λ (s : SourceState). s.left) c.self.view_is) ∙ piece_and_rest,
      λ none some. let some_bytes = simp length-append at some in none_left bytes at n (length c.args.into.now) c.self.inside.piece (least ∙ ap (λ (m : ℕ). min m (length (take (length bytes - at) (drop at bytes)))) c.min.ensures) c.self.invariant.1 (omega (arith, c.copy_from_slice.ensures.len, some_bytes, length-take n c.args.into.now, length-drop n c.args.into.now)) none,
    )

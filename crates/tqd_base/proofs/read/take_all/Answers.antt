-- Each way out has its lemma in `Taken`; the loop keeps what was taken so far.
use Rattle.std.proofs.Common.{◌≡◌, ℕ, ◌<◌, ◌≤◌, ◌++◌, length, drop, ◌∙◌, arith, take, ap, sym, subst}
use Rattle.std.proofs.lemmas.List.{length-take-le}
use Rattle.tqd_base.specs.Stops.{read_stop_of}
use Rattle.tqd_base.specs.declared.read.ReadStop.TheVariants.{Memory}
use Rattle.tqd_base.specs.World.{State, Bytes}
use Rattle.tqd_base.specs.Calls.{Takes}
use Rattle.tqd_base.specs.TakeAll.{TakeAllGives}
use Rattle.tqd_base.proofs.Taken.{Taken, taken_none, taken_more, reads_after, gives_memory, gives_stop, gives_bytes, gives_size, at_err, written}
use Rattle.tqd_base.proofs.read.take_all.Goals as goal

pub returns-in_err-buffer : goal.returns-in_err-buffer
returns-in_err-buffer g c =
    let start = g.D.Desk.state c.args.desk.now in
    at_err (TakeAllGives start start c.args.slot c.args.limit) _ Memory c.from_residual.ensures.1
    (gives_memory start start c.args.slot c.args.limit _ c.requires (taken_none start c.args.slot))

pub loop-bytes-init : goal.loop-bytes-init
loop-bytes-init g c = record {
  taken = subst (Taken _ _ c.args.slot) (sym c.new-bytes.ensures.items) (taken_none (g.D.Desk.state c.args.desk.now) c.args.slot);
  within = omega (arith, c.new-bytes.ensures.len);
  room = omega (arith, c.in_ok-buffer.ensures.len);
}

pub take-requires-clause-reads : goal.take-requires-clause-reads
take-requires-clause-reads g c = reads_after _ _ c.args.slot _ c.requires c.loop-bytes.invariant.taken

pub take-requires-clause-room : goal.take-requires-clause-room
take-requires-clause-room g c = omega (arith, c.deref_mut.ensures.len, c.loop-bytes.invariant.room)

pub returns-in_err-taken : goal.returns-in_err-taken
returns-in_err-taken g c =
    let start = g.D.Desk.state c.args.desk.now in
    at_err (TakeAllGives start (g.D.Desk.state c.take.new.self) c.args.slot c.args.limit) _ (read_stop_of c.in_err-taken.field-0.0) c.from_residual-in_err-taken.ensures.1
    (gives_stop start (g.D.Desk.state c.loop-bytes.desk) (g.D.Desk.state c.take.new.self) c.args.slot c.args.limit c.loop-bytes.bytes.items c.take.new.buffer c.in_err-taken.field-0.0 c.requires c.loop-bytes.invariant.taken c.in_err-taken.ensures)

pub returns-then-taken-eq0 : goal.returns-then-taken-eq0
returns-then-taken-eq0 g c =
    gives_bytes (g.D.Desk.state c.args.desk.now) (g.D.Desk.state c.loop-bytes.desk) (g.D.Desk.state c.take.new.self) c.args.slot c.args.limit c.loop-bytes.bytes c.take.new.buffer
    c.requires c.loop-bytes.invariant.taken
    (subst (Takes _ _ c.args.slot c.take.new.buffer) c.if-taken-eq0.true c.in_ok-taken.ensures) c.loop-bytes.invariant.within

pub slice_bounds-extend_from_slice-end : goal.slice_bounds-extend_from_slice-end
slice_bounds-extend_from_slice-end g c =
    let fits : c.in_ok-taken.taken ≤ length c.deref.result.now = omega (arith, c.in_ok-taken.ensures.fits, c.take.auto.buffer, c.deref_mut.ensures.len, c.deref.ensures.len) in
    sym (length-take-le _ _ fits)

pub returns-in_err-extend_from_slice : goal.returns-in_err-extend_from_slice
returns-in_err-extend_from_slice g c =
    let start = g.D.Desk.state c.args.desk.now in
    let end = g.D.Desk.state c.take.new.self in
    at_err (TakeAllGives start end c.args.slot c.args.limit) _ Memory c.from_residual-in_err-extend_from_slice.ensures.1
    (gives_memory start end c.args.slot c.args.limit _ c.requires (taken_more start _ end c.args.slot _ _ _ c.loop-bytes.invariant.taken c.in_ok-taken.ensures))

-- what was taken so far, with the bytes of this turn
grown : (old mid new : State) (slot : ℕ) (bytes after buffer seen items : Bytes) (room n : ℕ)
    → Taken old mid slot bytes → Takes mid new slot buffer n
    → seen ≡ take room (buffer ++ drop (length buffer) items) → length buffer ≡ room
    → after ≡ bytes ++ take n seen → Taken old new slot after
grown old mid new slot bytes after buffer seen items room n t m is_seen same is_after =
    subst (Taken old new slot) (sym (is_after ∙ ap (λ (s : Bytes). bytes ++ take n s) (is_seen ∙ written buffer items room same)))
    (taken_more old mid new slot n bytes buffer t m)

pub returns-then-len-limit : goal.returns-then-len-limit
returns-then-len-limit g c =
    let same : length c.take.new.buffer ≡ c.loop-bytes.buffer.len = omega (arith, c.take.auto.buffer, c.deref_mut.ensures.len) in
    gives_size (g.D.Desk.state c.args.desk.now) (g.D.Desk.state c.take.new.self) c.args.slot c.args.limit c.extend_from_slice.new.self.items c.requires
    (grown _ (g.D.Desk.state c.loop-bytes.desk) _ c.args.slot c.loop-bytes.bytes.items c.extend_from_slice.new.self.items c.take.new.buffer c.deref.result.now c.loop-bytes.buffer.items c.loop-bytes.buffer.len c.in_ok-taken.taken
    c.loop-bytes.invariant.taken c.in_ok-taken.ensures c.deref.ensures.value same c.in_ok-extend_from_slice.ensures.items)
    (omega (arith, c.if-len-limit.true, c.len.ensures))

pub loop-bytes-smaller : goal.loop-bytes-smaller
loop-bytes-smaller g c =
    let some : 0 < c.in_ok-taken.taken = omega (arith, c.if-taken-eq0.false) in
    omega (arith, c.in_ok-extend_from_slice.ensures.len, c.in_ok-taken.ensures.fits, c.take.auto.buffer, c.deref_mut.ensures.len, c.deref.ensures.len, length-take-le c.in_ok-taken.taken c.deref.result.now (omega (arith, c.in_ok-taken.ensures.fits, c.take.auto.buffer, c.deref_mut.ensures.len, c.deref.ensures.len)), c.if-len-limit.false, c.len.ensures)

pub loop-bytes-preserved : goal.loop-bytes-preserved
loop-bytes-preserved g c =
    let same : length c.take.new.buffer ≡ c.loop-bytes.buffer.len = omega (arith, c.take.auto.buffer, c.deref_mut.ensures.len) in
    record {
      taken = grown _ (g.D.Desk.state c.loop-bytes.desk) _ c.args.slot c.loop-bytes.bytes.items c.extend_from_slice.new.self.items c.take.new.buffer c.deref.result.now c.loop-bytes.buffer.items c.loop-bytes.buffer.len c.in_ok-taken.taken
          c.loop-bytes.invariant.taken c.in_ok-taken.ensures c.deref.ensures.value same c.in_ok-extend_from_slice.ensures.items;
      within = omega (arith, c.if-len-limit.false, c.len.ensures);
      room = c.loop-bytes.invariant.room;
    }

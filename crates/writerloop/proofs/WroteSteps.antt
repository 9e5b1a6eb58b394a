-- What the steps of a writer do to what it wrote.
use Rattle.reasons.specs.declared.Reason.TheVariants as reason
use Rattle.std.proofs.Common.{
  ◌≡◌,
  ◌≢◌,
  ◌∙◌,
  ℕ,
  Bool,
  true,
  false,
  List,
  [],
  ◌∷◌,
  ◌++◌,
  Option,
  None,
  Some,
  ap,
  append_assoc,
  sym,
  refl,
  map,
  subst,
}
use Rattle.std.proofs.lemmas.List.{append-nil, map-append}
use Rattle.account.specs.declared.call.OutItem.{OutItem}
use Rattle.std.specs.Io.KnownBytes.{Appends}
use Rattle.std.specs.Prelude.{◌==◌, Err, IfSome, if◌then◌else◌}
use Rattle.callbox.specs.declared.sender.Sender.{Sender}
use Rattle.device.specs.Bytes.{AppendsPrefix}
use Rattle.h2frame.specs.declared.error_code.ErrorCode.TheVariants.{FlowControlError}
use Rattle.h2frame.specs.declared.frame.Frame.{Frame}
use Rattle.h2frame.specs.Spelling.{spelled}
use Rattle.outwriter.specs.declared.control.WriterOrder.{WriterOrder}
use Rattle.outwriter.specs.declared.control.WriterOrder.TheVariants.{Reset, Goaway}
use Rattle.outwriter.specs.declared.control.OutFault.{OutFault}
use Rattle.outwriter.specs.declared.control.OutFault.TheVariants as out_fault
use Rattle.outwriter.specs.declared.control.OutFault.TheVariants.{PeerWindow}
use Rattle.outwriter.specs.declared.out_core.OutCore.{OutCore}
use Rattle.outwriter.specs.Cores.{IsUnused, Leads, LeadsControl, LeadsOn, LeadsStill}
use Rattle.outwriter.specs.Frames.{goaway_frame}
use Rattle.outwriter.specs.RunState.{Concerns}
use Rattle.outwriter.specs.Steps.{Step, Order, Taken, Written, Returned, frames_of, order_of}
use Rattle.writerloop.specs.declared.fill_end.FillEnd.{FillEnd}
use Rattle.writerloop.specs.declared.standing.Standing.{Standing}
use Rattle.writerloop.specs.declared.standing.Standing.TheVariants.{Going, OutOfMemory, Broken}
use Rattle.writerloop.specs.declared.frames.Frames.{Frames}
use Rattle.writerloop.specs.OwnOrders.{own_control, own_order, parting}
use Rattle.writerloop.specs.Spelled.{Holds, IsFront, IsAll, IsParted, ended_by}
use Rattle.writerloop.specs.Wrote.{Wrote, WritesOn, Fills, Puts, RestsIf}
use Rattle.writerloop.proofs.SpelledLemmas.{
  parted-more,
  holds-all,
  holds-cut,
  holds-flushed,
  holds-front,
}

appends-nothing : (bytes : Option (List ℕ)) → Appends bytes bytes []
appends-nothing None = tt
appends-nothing (Some xs) = sym (append-nil xs)

not-broken : Going ≢ Broken
not-broken e = cc

pub not-going : OutOfMemory ≢ Going
not-going e = cc

not-broken-2 : OutOfMemory ≢ Broken
not-broken-2 e = cc

-- ---- what a core answers

module _ {L In Out Shut : Type 0} (got : Out → List OutItem) where
  own-unused-by : (is_zero : Bool) (last id : ℕ) (control : WriterOrder (Sender L In Out Shut))
      → control ≡ (if is_zero then Goaway last reason.Window else Reset id FlowControlError true)
      → IsUnused got control
  own-unused-by true last id control is =
      subst (λ (c : WriterOrder (Sender L In Out Shut)). IsUnused got c) (sym is) tt
  own-unused-by false last id control is =
      subst (λ (c : WriterOrder (Sender L In Out Shut)). IsUnused got c) (sym is) tt

  own-order-by : (is_zero : Bool) (last id : ℕ) (control : WriterOrder (Sender L In Out Shut))
      → control ≡ (if is_zero then Goaway last reason.Window else Reset id FlowControlError true)
      → order_of control
      ≡ (if is_zero then Goaway last reason.Window else Reset id FlowControlError true)
  own-order-by true last id control is =
      ap (λ (c : WriterOrder (Sender L In Out Shut)). order_of c) is
  own-order-by false last id control is =
      ap (λ (c : WriterOrder (Sender L In Out Shut)). order_of c) is

  own-blameless-by : (is_zero : Bool) (last id stream : ℕ)
      (control : WriterOrder (Sender L In Out Shut))
      → control ≡ (if is_zero then Goaway last reason.Window else Reset id FlowControlError true)
      → Concerns (PeerWindow stream) control → ⊥
  own-blameless-by true last id stream control is h =
      subst (λ (c : WriterOrder (Sender L In Out Shut)). Concerns (PeerWindow stream) c) is h
  own-blameless-by false last id stream control is h =
      subst (λ (c : WriterOrder (Sender L In Out Shut)). Concerns (PeerWindow stream) c) is h

  -- the peer's window doesn't overflow by an order of the writer's own
  pub own-blameless : (last id stream : ℕ) (control : WriterOrder (Sender L In Out Shut))
      → control ≡ own_control last id
      → Concerns (PeerWindow stream) control → ⊥
  own-blameless last id stream control is = own-blameless-by (id == 0) last id stream control is

  -- what the core answers to an order of the writer's own
  pub own-leads : (last id : ℕ) (control : WriterOrder (Sender L In Out Shut))
      (old core : OutCore L In Out Shut)
      → control ≡ own_control last id
      → (IsUnused got control → LeadsOn got (Taken (order_of control)) old core)
      → LeadsOn got (Taken (own_order last id)) old core
  own-leads last id control old core is leads =
      subst (λ (order : Order). LeadsOn got (Taken order) old core)
      (own-order-by (id == 0) last id control is)
      (leads (own-unused-by (id == 0) last id control is))

  -- out of memory
  pub handed-leads : (fault : OutFault (Sender L In Out Shut))
      (back : Option (WriterOrder (Sender L In Out Shut)))
      (control : WriterOrder (Sender L In Out Shut))
      (old core : OutCore L In Out Shut)
      → fault ≡ out_fault.OutOfMemory back → LeadsControl got (Err fault) control old core
      → LeadsStill got old core
  handed-leads fault back control old core is leads =
      (subst (λ (f : OutFault (Sender L In Out Shut)).
      LeadsControl got (Err f) control old core) is leads).1

  abbrev some-of : WriterOrder (Sender L In Out Shut) → Option (WriterOrder (Sender L In Out Shut))
      → WriterOrder (Sender L In Out Shut)
  some-of other None = other
  some-of other (Some found) = found

  -- what is handed back is the order
  pub handed-back : (fault : OutFault (Sender L In Out Shut))
      (back : Option (WriterOrder (Sender L In Out Shut)))
      (one control : WriterOrder (Sender L In Out Shut)) (old core : OutCore L In Out Shut)
      → fault ≡ out_fault.OutOfMemory back → back ≡ Some one
      → LeadsControl got (Err fault) control old core → one ≡ control
  handed-back fault back one control old core is some leads =
      ap (some-of one) (sym some
      ∙ (subst (λ (f : OutFault (Sender L In Out Shut)).
      LeadsControl got (Err f) control old core) is leads).0)

  -- a fault of the peer's is that of the order
  pub overflow-whose : (fault : OutFault (Sender L In Out Shut)) (id : ℕ)
      (control : WriterOrder (Sender L In Out Shut))
      → fault ≡ PeerWindow id → Concerns fault control → Concerns (PeerWindow id) control
  overflow-whose fault id control is concerns =
      subst (λ (f : OutFault (Sender L In Out Shut)). Concerns f control) is concerns

  -- the peer's window overflows
  pub overflow-leads : (fault : OutFault (Sender L In Out Shut)) (id : ℕ)
      (control : WriterOrder (Sender L In Out Shut)) (old core : OutCore L In Out Shut)
      → fault ≡ PeerWindow id → LeadsControl got (Err fault) control old core
      → LeadsOn got (Taken (order_of control)) old core
  overflow-leads fault id control old core is leads =
      subst (λ (f : OutFault (Sender L In Out Shut)).
      LeadsControl got (Err f) control old core) is leads

-- ---- what was written

module _ {L In Out Shut W : Type 0} (got : Out → List OutItem) (contents : W → Option (List ℕ))
    (failed : W → Bool) where
  -- the core goes on by steps that write nothing
  pub core-on : (steps : List Step) (old : Frames L W In Out Shut) (core : OutCore L In Out Shut)
      → ((run : List Step) → frames_of (steps ++ run) ≡ frames_of run)
      → ((run : List Step) → Leads got run old.core → Leads got (steps ++ run) core)
      → WritesOn got contents failed steps old (record old { core = core })
  core-on steps old core same leads before run w = record {
    leads = leads run w.leads;
    bytes =
        subst (λ (frames : List Frame).
        Holds old.standing frames before (contents old.device) old.buffer.items old.ended.items)
        (sym (same run)) w.bytes;
    marked = w.marked;
  }

  -- a sender is given back
  pub returned-on : (id : ℕ) (old : Frames L W In Out Shut) (core : OutCore L In Out Shut)
      (result : Option (Sender L In Out Shut))
      → IfSome result (λ sender. LeadsOn got (Returned id (got sender.rx)) old.core core)
      → IfSome result (λ sender.
      WritesOn got contents failed (Returned id (got sender.rx) ∷ []) old
      (record old { core = core }))
  returned-on id old core None leads = tt
  returned-on id old core (Some sender) leads =
      core-on (Returned id (got sender.rx) ∷ []) old core (λ run. refl) leads

  -- the writer makes no more frames
  pub stopped-on : (old : Frames L W In Out Shut) → old.standing ≡ Going
      → WritesOn got contents failed [] old (record old { standing = OutOfMemory })
  stopped-on old going before run w = record {
    leads = w.leads;
    bytes =
        subst (λ (standing : Standing).
        Holds standing (frames_of run) before (contents old.device) old.buffer.items
        old.ended.items) going w.bytes;
    marked = λ broken. absurd (not-broken-2 broken);
  }

  -- ---- a frame comes

  puts-on : (frame : Frame) (old mid new : Frames L W In Out Shut) → old.standing ≡ Going
      → LeadsOn got (Written frame) old.core mid.core
      → mid.standing ≡ old.standing → mid.device ≡ old.device → mid.buffer.items ≡ old.buffer.items
      → mid.ended.items ≡ old.ended.items
      → Puts frame mid new → WritesOn got contents failed (Written frame ∷ []) old new
  puts-on frame old mid new going leads standing device buffer ended p before run w =
      let parted =
      subst (λ (s : Standing).
      Holds s (frames_of run) before (contents old.device) old.buffer.items
      old.ended.items) going w.bytes in
      let stands : new.standing ≡ Going = p.standing ∙ (standing ∙ going) in
      record {
        leads =
            subst (λ (found : OutCore L In Out Shut). Leads got (Written frame ∷ run) found)
            (sym p.core) (leads run w.leads);
        bytes = rw (stands, p.device, device, p.buffer, buffer, p.ended, ended)
            (parted-more frame (frames_of run) before (contents old.device) old.buffer.items
            old.ended.items parted);
        marked = λ broken. absurd (not-broken (sym stands ∙ broken));
      }

  pub put-fills : (ahead : Out → List OutItem) (frame : Frame)
      (old mid new : Frames L W In Out Shut)
      → old.standing ≡ Going
      → LeadsOn got (Written frame) old.core mid.core
      → mid.standing ≡ old.standing → mid.device ≡ old.device → mid.buffer.items ≡ old.buffer.items
      → mid.ended.items ≡ old.ended.items
      → Puts frame mid new → Fills got ahead contents failed None old new
  put-fills ahead frame old mid new going leads standing device buffer ended p before run w = (
    frame ∷ [],
    puts-on frame old mid new going leads standing device buffer ended p before run w,
    tt,
  )

  -- frames, and then frames
  pub fills-then : (ahead : Out → List OutItem) (filled : Option FillEnd)
      (old mid new : Frames L W In Out Shut)
      → Fills got ahead contents failed None old mid
      → Fills got ahead contents failed filled mid new
      → Fills got ahead contents failed filled old new
  fills-then ahead filled old mid new first second before run w =
      let p = first before run w in
      let q = second before (map Written p.0 ++ run) p.1 in
      let same : map Written q.0 ++ (map Written p.0 ++ run) ≡ map Written (q.0 ++ p.0) ++ run =
      sym (append_assoc (map Written q.0) (map Written p.0) run)
      ∙ ap (λ (steps : List Step). steps ++ run) (sym (map-append Written q.0 p.0)) in (
        q.0 ++ p.0,
        subst (λ (steps : List Step). Wrote got contents failed before steps new) same q.1,
        subst (λ (steps : List Step). RestsIf ahead filled steps new) same q.2,
      )

  pub fills-none : (ahead : Out → List OutItem) (writer : Frames L W In Out Shut)
      → Fills got ahead contents failed None writer writer
  fills-none ahead writer before run w = ([], w, tt)

  -- ---- the last word

  pub parts-on : (last : ℕ) (frame : Frame) (old new : Frames L W In Out Shut)
      → frame ≡ goaway_frame last reason.Memory → old.standing ≡ OutOfMemory
      → ((run : List Step) → Leads got run old.core
      → Leads got (Written frame ∷ Taken (Goaway last reason.Memory) ∷ run) new.core)
      → new.standing ≡ old.standing → new.device ≡ old.device
      → new.buffer.items ≡ old.buffer.items ++ spelled frame → new.ended.items ≡ old.ended.items
      → WritesOn got contents failed (parting last true) old new
  parts-on last frame old new is memory leads standing device buffer ended before run w =
      let held =
      subst (λ (s : Standing).
      Holds s (frames_of run) before (contents old.device) old.buffer.items
      old.ended.items) memory w.bytes in
      subst (λ (f : Frame).
      Wrote got contents failed before
      (Written f ∷ Taken (Goaway last reason.Memory) ∷ run) new) is (record {
        leads = leads run w.leads;
        bytes = rw (standing, memory, device, buffer, ended)
            (subst (λ (ids : List ℕ).
            IsParted (frame ∷ frames_of run) before (contents old.device)
            (old.buffer.items ++ spelled frame) ids)
            (ap (λ (f : Frame). old.ended.items ++ ended_by (f ∷ [])) is
            ∙ append-nil old.ended.items)
            (parted-more frame (frames_of run) before (contents old.device) old.buffer.items
            old.ended.items held));
        marked = rw (standing, device) w.marked;
      })

  -- ---- a new writer

  pub new-wrote : (new : Frames L W In Out Shut) → new.standing ≡ Going → new.buffer.items ≡ []
      → new.ended.items ≡ []
      → Leads got [] new.core → Wrote got contents failed (contents new.device) [] new
  new-wrote new going buffer ended leads = record {
    leads = leads;
    bytes =
        rw (going, buffer, ended) (record {
          waiting = [];
          written = [];
          all = refl;
          device = appends-nothing (contents new.device);
          buffered = refl;
          ends = refl;
        });
    marked = λ broken. absurd (not-broken (sym going ∙ broken));
  }

  -- ---- a write

  pub flushed-on : (old : Frames L W In Out Shut) (new : Frames L W In Out Shut)
      → old.standing ≢ Broken → new.core ≡ old.core → new.standing ≡ old.standing
      → new.buffer.items ≡ [] → new.ended.items ≡ []
      → Appends (contents old.device) (contents new.device) old.buffer.items
      → WritesOn got contents failed [] old new
  flushed-on old new whole core standing buffer ended appends before run w = record {
    leads = subst (λ (found : OutCore L In Out Shut). Leads got run found) (sym core) w.leads;
    bytes = rw (standing, buffer, ended)
        (holds-flushed old.standing (frames_of run) before (contents old.device)
        (contents new.device) old.buffer.items old.ended.items whole w.bytes appends);
    marked = λ broken. absurd (whole (sym standing ∙ broken));
  }

  pub broken-on : (old : Frames L W In Out Shut) (new : Frames L W In Out Shut)
      → old.standing ≢ Broken → new.core ≡ old.core → new.standing ≡ Broken
      → failed new.device ≡ true
      → AppendsPrefix (contents old.device) (contents new.device) old.buffer.items
      → WritesOn got contents failed [] old new
  broken-on old new whole core standing mark cut before run w = record {
    leads = subst (λ (found : OutCore L In Out Shut). Leads got run found) (sym core) w.leads;
    bytes =
        rw standing (holds-cut old.standing (frames_of run) before (contents old.device)
        (contents new.device) old.buffer.items old.ended.items whole w.bytes cut);
    marked = λ broken. mark;
  }

  -- what the device has of it in the end
  pub wrote-front : (before : Option (List ℕ)) (run : List Step) (writer : Frames L W In Out Shut)
      → Wrote got contents failed before run writer
      → IsFront (frames_of run) before (contents writer.device)
  wrote-front before run writer w =
      holds-front writer.standing (frames_of run) before (contents writer.device)
      writer.buffer.items writer.ended.items w.bytes

  pub wrote-all : (before : Option (List ℕ)) (run : List Step) (writer : Frames L W In Out Shut)
      → writer.standing ≢ Broken → writer.buffer.items ≡ []
      → Wrote got contents failed before run writer
      → IsAll (frames_of run) before (contents writer.device)
  wrote-all before run writer sound empty w =
      holds-all writer.standing (frames_of run) before (contents writer.device) writer.buffer.items
      writer.ended.items sound w.bytes empty

  -- ---- no frame comes

  pub still-on : (old mid : Frames L W In Out Shut) → old.standing ≡ Going
      → LeadsStill got old.core mid.core → mid.standing ≡ old.standing → mid.device ≡ old.device
      → mid.buffer.items ≡ old.buffer.items → mid.ended.items ≡ old.ended.items
      → WritesOn got contents failed [] old mid
  still-on old mid going leads standing device buffer ended before run w = record {
    leads = leads run w.leads;
    bytes = rw (standing ∙ going, device, buffer, ended)
        (subst (λ (s : Standing).
        Holds s (frames_of run) before (contents old.device) old.buffer.items
        old.ended.items) going w.bytes);
    marked = rw (standing, device) w.marked;
  }

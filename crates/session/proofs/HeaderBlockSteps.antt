-- One more frame of a header block.
use Rattle.std.proofs.Common.{
  ◌≡◌,
  ◌≤◌,
  ℕ,
  Bool,
  false,
  List,
  [],
  ◌∷◌,
  ◌++◌,
  length,
  refl,
  sym,
  ap,
  subst,
  ◌∙◌,
  arith,
}
use Rattle.std.specs.List.{AllByRecursion}
use Rattle.std.proofs.lemmas.List.{append-nil, flat_map_more}
use Rattle.h2frame.specs.declared.frame.Frame.{Frame}
use Rattle.h2frame.specs.declared.frame.FrameHead.{FrameHead}
use Rattle.h2frame.specs.declared.kind.FrameKind.TheVariants.{Headers}
use Rattle.h2frame.specs.Flags.{has, end_headers}
use Rattle.session.specs.HeaderBlocks.{PendingBlock, IsContinuation, AreMarked, Collects}
use Rattle.session.proofs.SettingSteps.{all_push}

pub collects_first : (frame : Frame) → frame.head.kind ≡ Headers → length frame.content ≤ 16384
    → Collects (frame ∷ [])
    (record { head = frame.head; block = frame.content; whole = has end_headers frame.head.flags })
collects_first frame headers short =
    record {
      first = frame;
      others = [];
      parts = refl;
      headers = refl;
      kind = headers;
      continuations = tt;
      text = sym (append-nil frame.content);
      short = omega (arith, short);
      marks = refl;
    }

marks_push : (frames : List Frame) (frame : Frame) → AreMarked frames false
    → AreMarked (frames ++ frame ∷ []) (has end_headers frame.head.flags)
marks_push [] frame marks = absurd marks
marks_push (first ∷ []) frame marks = (marks, refl)
marks_push (first ∷ second ∷ frames) frame marks =
    (marks.0, marks_push (second ∷ frames) frame marks.1)

pub collects_more : (frames : List Frame) (old new : PendingBlock) (frame : Frame)
    → Collects frames old
    → old.whole ≡ false → IsContinuation old.head.stream frame
    → new.head ≡ old.head → new.block ≡ old.block ++ frame.content
    → new.whole ≡ has end_headers frame.head.flags → length new.block ≤ 65536
    → Collects (frames ++ frame ∷ []) new
collects_more frames old new frame so still goes_on head block whole short =
    record {
      first = so.first;
      others = so.others ++ frame ∷ [];
      parts = ap (λ (fs : List Frame). fs ++ frame ∷ []) so.parts;
      headers = so.headers ∙ sym head;
      kind = ap (λ (h : FrameHead). h.kind) head ∙ so.kind;
      continuations =
          subst (λ (id : ℕ). AllByRecursion (IsContinuation id) (so.others ++ frame ∷ []))
          (ap (λ (h : FrameHead). h.stream) (sym head))
          (all_push (IsContinuation old.head.stream) so.others frame so.continuations goes_on);
      text =
          block ∙ ap (λ (b : List ℕ). b ++ frame.content) so.text
          ∙ flat_map_more (λ (f : Frame). f.content) [] frames frame;
      short = short;
      marks =
          subst (λ (b : Bool). AreMarked (frames ++ frame ∷ []) b) (sym whole)
          (marks_push frames frame (subst (λ (b : Bool). AreMarked frames b) still so.marks));
    }

-- `sbr_make::Frames::add_line` meets its contract.
use Rattle.std.proofs.Common.{refl, sym, ap, ◌∙◌, w32}
use mir.ValLaws.{to_z-of_z}
use Rattle.sbr_grid.specs.Refusals.{result_map, value_or}
use Rattle.sbr_text.specs.declared.Kind.TheVariants.{Blank, Slots, Frame, Unreadable}
use Rattle.sbr_text.specs.Parts.{read_line}
use Rattle.sbr_text.proofs.Bounds.{line_bounded}
use Rattle.sbr_text.proofs.Signs.{near_fits}
use Rattle.sbr_make.proofs.ByKind.{by_kind, named_as}
use Rattle.sbr_make.proofs.Frames.add_line.Goals as goal

pub returns-in-Blank : goal.returns-in-Blank
returns-in-Blank c =
    let e = by_kind c.args.self.now (read_line c.args.line.now) Blank c.args.end c.if-end-gt-MAX_TEXT.false (sym c.in-Blank.is ∙ c.read_line-read.ensures.kind) in
    record { answer = ap (result_map (λ m. tt)) e; frames = ap (value_or (λ m. m) c.args.self.now) e }

pub returns-in-Slots : goal.returns-in-Slots
returns-in-Slots c =
    let e = by_kind c.args.self.now (read_line c.args.line.now) (Slots c.in-Slots.n) c.args.end c.if-end-gt-MAX_TEXT.false (sym c.in-Slots.is ∙ c.read_line-read.ensures.kind) in
    let f = c.set_slots.ensures in
    record { answer = f.answer ∙ ap (result_map (λ m. tt)) e; frames = f.frames ∙ ap (value_or (λ m. m) c.args.self.now) e }

pub returns-in-Frame : goal.returns-in-Frame
returns-in-Frame c =
    let s = read_line c.args.line.now in
    let r = c.read_line-read in
    let mark = to_z-of_z w32 s.mark (near_fits s.mark (line_bounded c.args.line.now).marked) in
    let e = named_as c.args.self.now _ _ _ _ _ _ (c.as_slice.ensures ∙ r.ensures.borders) (c.as_slice-in-Frame.ensures ∙ r.ensures.flags) refl
    ∙ by_kind c.args.self.now s Frame c.args.end c.if-end-gt-MAX_TEXT.false (sym c.in-Frame.is ∙ r.ensures.kind) in
    record {
      answer = (rw (r.ensures.mark, mark) at c.name_frame.ensures.answer) ∙ ap (result_map (λ m. tt)) e;
      frames = (rw (r.ensures.mark, mark) at c.name_frame.ensures.frames) ∙ ap (value_or (λ m. m) c.args.self.now) e;
    }

pub returns-in-Unreadable : goal.returns-in-Unreadable
returns-in-Unreadable c =
    let e = by_kind c.args.self.now (read_line c.args.line.now) Unreadable c.args.end c.if-end-gt-MAX_TEXT.false (sym c.in-Unreadable.is ∙ c.read_line-read.ensures.kind) in
    record { answer = ap (result_map (λ m. tt)) e; frames = ap (value_or (λ m. m) c.args.self.now) e }

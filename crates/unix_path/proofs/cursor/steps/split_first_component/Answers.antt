use Rattle.unix_path.proofs.cursor.steps.split_first_component.Goals as goal

pub returns-then-starts_with_parent_dir : goal.returns-then-starts_with_parent_dir
returns-then-starts_with_parent_dir c =
    let step = c.parent_dir_step in
    record {
      in_range = step.ensures.in_range;
      parts = (2, step.ensures.parts);
      not_filler = step.ensures.not_filler;
    }

pub returns-else-starts_with_parent_dir : goal.returns-else-starts_with_parent_dir
returns-else-starts_with_parent_dir c =
    let step = c.name_step-end in
    record {
      in_range = step.ensures.in_range;
      parts = (step.result.0, step.ensures.parts);
      not_filler = step.ensures.not_filler;
    }
